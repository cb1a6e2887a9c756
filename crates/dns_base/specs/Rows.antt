-- The builder of additional records as the logic names its type, for clauses on one that is lent for writing.
use Rattle.std.specs.Borrow.{RattleType}
use Rattle.dns_base.specs.declared.draft.Section.TheVariants.{Additional}
use Rattle.dns_base.specs.Built.{to_records}
use Rattle.dns_base.specs.contracts.builder.Builder as builder
use Rattle.dns_base.specs.contracts.builder.stage.AdditionalStage as stage

abbrev pub additional_row : RattleType
additional_row = builder.the_row stage.the_row (record { extent = to_records Additional })
