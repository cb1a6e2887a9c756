use Rattle.dns_zone_include.proofs.Places.{same_place}
use Rattle.dns_zone_include.proofs.laws.the_origin_comes_back.Goals as goal

pub returns : goal.returns
returns c = λ texts levels names name d e i h. same_place texts levels names name d e i h
