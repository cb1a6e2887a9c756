use Rattle.std.proofs.Common.{◌++◌, List}
use Rattle.dns_name.specs.declared.registry_names.TheConstants.{TYPES, TYPES_FROM_17, TYPES_FROM_33, TYPES_FROM_49, TYPES_FROM_66, TYPES_FROM_128, TYPES_FROM_258}
use Rattle.dns_name.specs.Registries.{Entry, entries_in, fits}
use Rattle.dns_name.proofs.FoundIn.{found_in_both}
use Rattle.dns_name.proofs.registry.type_found.Goals as goal

pub returns : goal.returns
returns c =
    let p = fits c.args.wanted in
    let to_32 : List Entry = entries_in TYPES.now ++ entries_in TYPES_FROM_17.now in
    let to_48 : List Entry = to_32 ++ entries_in TYPES_FROM_33.now in
    let to_65 : List Entry = to_48 ++ entries_in TYPES_FROM_49.now in
    let to_109 : List Entry = to_65 ++ entries_in TYPES_FROM_66.now in
    let to_257 : List Entry = to_109 ++ entries_in TYPES_FROM_128.now in
    let in_32 = found_in_both p (entries_in TYPES.now) (entries_in TYPES_FROM_17.now) _ _ _ c.first_in.ensures c.first_in-2.ensures c.or.ensures in
    let in_48 = found_in_both p to_32 (entries_in TYPES_FROM_33.now) _ _ _ in_32 c.first_in-3.ensures c.or-2.ensures in
    let in_65 = found_in_both p to_48 (entries_in TYPES_FROM_49.now) _ _ _ in_48 c.first_in-4.ensures c.or-3.ensures in
    let in_109 = found_in_both p to_65 (entries_in TYPES_FROM_66.now) _ _ _ in_65 c.first_in-5.ensures c.or-4.ensures in
    let in_257 = found_in_both p to_109 (entries_in TYPES_FROM_128.now) _ _ _ in_109 c.first_in-6.ensures c.or-5.ensures in
    found_in_both p to_257 (entries_in TYPES_FROM_258.now) _ _ _ in_257 c.first_in-7.ensures c.or-6.ensures
