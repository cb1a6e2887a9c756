-- Which bunches of a zone are kept.
use Rattle.std.proofs.Common.{◌≡◌, Bool, true, false, List, [], ◌∷◌, Option, Some, None, refl, ap, sym, ◌∙◌}
use Rattle.std.specs.Prelude.{◌&&◌, option_map}
use Rattle.dns_base.specs.Msg.{ResourceRecord}
use Rattle.dns_service.specs.Req.{Req}
use Rattle.dns_service.specs.Transport.{is_stream}
use Rattle.dns_zone.specs.Owned.{ZoneState}
use Rattle.dns_authority.specs.Authorities.{kept_bunches, may_transfer}
use Rattle.dns_networks.specs.declared.network.Network.{Network}
use Rattle.dns_transfer.specs.Transfers.{bunched, transfer_records}

no_network : (b : Bool) → (b && false) ≡ true → ⊥
no_network true h = absurd (cc)
no_network false h = absurd (cc)

-- if a zone may be transferred its bunches are kept
pub bunches_there : {Meta : Type 0} (ns : List Network) (z : ZoneState) (r : Req Meta) (o : Option (List (List ResourceRecord))) → may_transfer ns r ≡ true → o ≡ kept_bunches ns z → o ≡ Some (bunched (transfer_records z))
bunches_there [] z r o h e = absurd (no_network (is_stream r.transport) h)
bunches_there (n ∷ ns) z r o h e = e

pub bunches_are : {X : Type 0} (f : X → List (List ResourceRecord)) (o : Option X) (x : X) (b : List (List ResourceRecord)) → o ≡ Some x → option_map f o ≡ Some b → f x ≡ b
bunches_are f None x b e h = absurd (cc)
bunches_are f (Some y) x b e h = some_is (sym (ap (option_map f) e) ∙ h)
  where
    some_is : Some (f x) ≡ Some b → f x ≡ b
    some_is g = cc

pub bunches_none : {X : Type 0} (f : X → List (List ResourceRecord)) (o : Option X) (b : List (List ResourceRecord)) → o ≡ None → option_map f o ≡ Some b → ⊥
bunches_none f None b e h = absurd (cc)
bunches_none f (Some y) b e h = absurd (cc)
