use Rattle.std.proofs.Common.{◌≡◌, ◌≤◌, ◌+◌, ◌*◌, ◌-◌, drop}
use Rattle.dns_zone_include.specs.Including.{included, octets_of}
use Rattle.dns_zone_include.proofs.level.Level.+texts.Given as goal

abbrev pub decreases-included : goal.decreases-included
decreases-included g l = 8 * l.self.now.levels

abbrev pub decreases-one_text : goal.decreases-one_text
decreases-one_text g l = 8 * l.self.now.levels - 1

abbrev pub decreases-text_of : goal.decreases-text_of
decreases-text_of g l = 8 * l.self.now.levels + 5

abbrev pub decreases-octets_of : goal.decreases-octets_of
decreases-octets_of g l = 8 * l.self.now.levels + 4

abbrev pub decreases-octet_of : goal.decreases-octet_of
decreases-octet_of g l = 8 * l.self.now.levels + 3

abbrev pub decreases-entry_of : goal.decreases-entry_of
decreases-entry_of g l = 8 * l.self.now.levels + 2

abbrev pub decreases-include_of : goal.decreases-include_of
decreases-include_of g l = 8 * l.self.now.levels + 1

-- the octets that are left go on with what is scanned and said so far
abbrev pub invariant-octets_of-loop-octet : goal.invariant-octets_of-loop-octet
invariant-octets_of-loop-octet g l =
    let include = included (g.T.ZoneTexts.texts l.self.texts.now) l.self.levels l.self.names.now l.self.name.now in
    record {
      so_far : octets_of l.self.name.now include l.scan l.draft (drop l.octet-index l.text) ≡ octets_of l.self.name.now include l.fn.scan l.fn.draft l.fn.text;
      line : l.scan.line ≤ l.fn.scan.line + l.octet-index;
    }
