use Rattle.std.proofs.Common.{◌≡◌, [], ◌∷◌, ◌++◌, ◌-◌, length, take, ap, ◌∙◌, arith}
use Rattle.std.proofs.lemmas.Grind.{common_steps}
use Rattle.dns_name.specs.Labels.{spell}
use Rattle.dns_name_server.proofs.FrontLaws.{front_named, front_never, front_within}
use Rattle.dns_signed_reply.proofs.names.front_of.Goals as goal

pub overflow_sub-size : goal.overflow_sub-size
overflow_sub-size c = front_within c.args.count c.args.name.now c.as_slice-octets.result.now c.as_slice-after.result.now c.as_slice-octets.ensures.value (c.as_slice-after.ensures.value ∙ ap spell c.behind-rest.ensures)

pub returns : goal.returns
returns c =
    let o = c.as_slice-octets.result.now in
    let b = c.as_slice-after.result.now in
    let g : c.push.new.self.items ≡ take (length o - length b) o ++ 0 ∷ [] = grind (arith, common_steps) in
    front_named c.args.count c.args.name.now o b c.as_slice-octets.ensures.value (c.as_slice-after.ensures.value ∙ ap spell c.behind-rest.ensures) c.push.new.self.items c.in-Ok.name c.as_slice-octets.ensures.named g c.in-Ok.ensures

pub unreachable-requires : goal.unreachable-requires
unreachable-requires c =
    let o = c.as_slice-octets.result.now in
    let b = c.as_slice-after.result.now in
    let g : c.push.new.self.items ≡ take (length o - length b) o ++ 0 ∷ [] = grind (arith, common_steps) in
    front_never c.args.count c.args.name.now o b c.as_slice-octets.ensures.value (c.as_slice-after.ensures.value ∙ ap spell c.behind-rest.ensures) c.push.new.self.items _ c.as_slice-octets.ensures.named g c.in-Err.ensures
