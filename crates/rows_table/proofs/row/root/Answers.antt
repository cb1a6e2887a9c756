use Rattle.std.proofs.Common.{Ok, ◌≡◌, refl, [], ◌∷◌}
use Rattle.dns_name.specs.Names.{uncompressed, name_by, rest_of, name_piece}
use Rattle.rows_table.proofs.row.root.Goals as goal

-- the octet of the root is a name of no labels
pub unreachable-requires : goal.unreachable-requires
unfolding name_by rest_of name_piece
unreachable-requires c = let read : uncompressed (0 ∷ []) ≡ Ok [] = refl in cc
