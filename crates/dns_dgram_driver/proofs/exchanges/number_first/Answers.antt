use Rattle.std.proofs.Common.{◌<◌, length, arith}
use Rattle.dns_dgram_driver.proofs.Places.{first_number}
use Rattle.dns_dgram_driver.proofs.exchanges.number_first.Goals as goal

pub returns : goal.returns
returns g c =
    let xs = c.args.exchanges.now.items in
    let h : 0 < length xs = let a = c.args.exchanges.now.ok.0 in let b = c.requires in omega arith in
    first_number xs c.index.result.now h c.index.ensures
