use Rattle.std.proofs.Common.{◌≡◌, drop}
use Rattle.dns_presentation.specs.Fields.{fields_after}
use Rattle.dns_presentation.proofs.fields.push_fields.Given as goal

-- the fields that are left go on with the octets so far
abbrev pub invariant-loop-field : goal.invariant-loop-field
invariant-loop-field l = fields_after l.origin l.line l.target.items (drop l.field-index l.fields) l.rest ≡ fields_after l.origin l.line l.fn.target.items l.fields l.words
