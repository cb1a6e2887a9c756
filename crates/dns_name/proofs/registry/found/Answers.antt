use Rattle.dns_name.specs.declared.registry_names.TheConstants.{OPTIONS, OPTIONS_FROM_15, ERRORS, ERRORS_FROM_16, RCODES, RCODES_FROM_16}
use Rattle.dns_name.specs.Registries.{entries_in, fits}
use Rattle.dns_name.proofs.FoundIn.{found_in_both}
use Rattle.dns_name.proofs.registry.found.Goals as goal

pub returns-in-OptionCodes : goal.returns-in-OptionCodes
returns-in-OptionCodes c =
    rw c.in-OptionCodes.is
    (found_in_both (fits c.args.wanted) (entries_in OPTIONS.now) (entries_in OPTIONS_FROM_15.now) _ _ _ c.first_in-in-OptionCodes.ensures c.first_in-in-OptionCodes-2.ensures c.or.ensures)

pub returns-in-ErrorCodes : goal.returns-in-ErrorCodes
returns-in-ErrorCodes c =
    rw c.in-ErrorCodes.is
    (found_in_both (fits c.args.wanted) (entries_in ERRORS.now) (entries_in ERRORS_FROM_16.now) _ _ _ c.first_in-in-ErrorCodes.ensures c.first_in-in-ErrorCodes-2.ensures c.or-in-ErrorCodes.ensures)

pub returns-in-Rcodes : goal.returns-in-Rcodes
returns-in-Rcodes c =
    rw c.in-Rcodes.is
    (found_in_both (fits c.args.wanted) (entries_in RCODES.now) (entries_in RCODES_FROM_16.now) _ _ _ c.first_in-in-Rcodes.ensures c.first_in-in-Rcodes-2.ensures c.or-in-Rcodes.ensures)
