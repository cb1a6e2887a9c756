use Rattle.std.proofs.Common.{◌≡◌, true, sym, ap, ◌∙◌}
use Rattle.dns_opt.specs.OptRecords.{opt_state}
use Rattle.dns_route.specs.KeptOptions.{keeps, kept_of_list}
use Rattle.dns_route.proofs.KeptLaws.{ended, has_room, kept_one}
use Rattle.dns_route.proofs.kept.keep.Goals as goal

pub push_option-requires : goal.push_option-requires
push_option-requires c =
    has_room c.args.which c.args.options.now c.walk.rest.now c.walk.kept.options c.in-Some.code c.in-Some.data.now c.in-Some.more.now c.walk.invariant.walked c.in-Some.ensures.1

pub walk-preserved-in_ok-push_option : goal.walk-preserved-in_ok-push_option
walk-preserved-in_ok-push_option c =
    let taken : keeps c.args.which c.in-Some.code ≡ true = ap (keeps c.args.which) (sym c.from_int.ensures) ∙ (sym c.takes.ensures ∙ c.if-takes.true) in
    rw c.in_ok-push_option.ensures (record {
      walked = kept_one c.args.which c.args.options.now c.walk.rest.now c.walk.kept.options c.in-Some.code c.in-Some.data.now c.in-Some.more.now c.walk.invariant.walked c.in-Some.ensures.1 taken;
      head = c.walk.invariant.head;
    })

pub returns : goal.returns
returns c =
    let all : c.walk.kept.options ≡ kept_of_list c.args.which c.args.options.now = ended c.args.which c.args.options.now c.walk.rest.now c.walk.kept.options c.walk.invariant.walked c.in_default.ensures in
    ap (λ l. opt_state c.walk.kept.head l) all ∙ ap (λ h. opt_state h (kept_of_list c.args.which c.args.options.now)) c.walk.invariant.head
