-- Signing adds and never changes.
use Rattle.std.proofs.Common.{◌≡◌, Bool, true, false, List, [], ◌∷◌, ◌++◌, cond, refl, ◌∙◌, append_assoc}
use Rattle.std.specs.Prelude.{◌||◌, ◌&&◌, if◌then◌else◌, nat_eq}
use Rattle.std.specs.List.{AllByRecursion, filter, list_any}
use Rattle.std.proofs.lemmas.Bool.{and_parts, or_left, or_right}
use Rattle.dns_base.specs.Records.{data_type}
use Rattle.dns_message.specs.declared.record.Record.{Record}
use Rattle.dns_zone.specs.Owned.{ZoneState, is_of}
use Rattle.dns_zone.specs.ZoneReply.{ZoneReply}
use Rattle.dns_zone_tree.specs.Wildcards.{had_records}
use Rattle.dns_denial.specs.Denials.{is_under_dname}
use Rattle.dns_denial.specs.Signed.{SigningAdds, ds_records, is_added, is_beside, is_ds_of, is_signature, signatures, signatures_of, type_covered}

abbrev AreAdded : List Record → Type 0
AreAdded rs = AllByRecursion (λ (r : Record). is_added r ≡ true) rs

added_step : (p : Record → Bool) (r : Record) (rs : List Record) (b : Bool) → p r ≡ b → (p r ≡ true → is_added r ≡ true) → AreAdded (filter p rs) → AreAdded (cond b (r ∷ filter p rs) (filter p rs))
added_step p r rs true e h ih = (h e, ih)
added_step p r rs false e h ih = ih

added : (p : Record → Bool) → ((r : Record) → p r ≡ true → is_added r ≡ true) → (rs : List Record) → AreAdded (filter p rs)
added p h [] = tt
added p h (r ∷ rs) = added_step p r rs (p r) refl (h r) (added p h rs)

both_added : (xs ys : List Record) → AreAdded xs → AreAdded ys → AreAdded (xs ++ ys)
both_added [] ys h k = k
both_added (x ∷ xs) ys h k = (h.0, both_added xs ys h.1 k)

either : (b : Bool) (xs : List Record) → AreAdded xs → AreAdded (if b then [] else xs)
either true xs h = tt
either false xs h = h

of_added : (z : ZoneState) (r : Record) → AreAdded (signatures_of z r)
of_added z r = either (is_under_dname z r.owner) (filter (is_signature (data_type r.rdata)) (had_records z r.owner 46))
    (added (is_signature (data_type r.rdata)) (λ s h. or_left (is_of 46 s || is_of 47 s) (is_of 50 s || is_of 43 s) (or_left (is_of 46 s) (is_of 47 s) (and_parts (is_of 46 s) (nat_eq (type_covered s.rdata) (data_type r.rdata)) h).0)) (had_records z r.owner 46))

signatures_added : (z : ZoneState) (seen rs : List Record) → AreAdded (signatures z seen rs)
signatures_added z seen [] = tt
signatures_added z seen (r ∷ rs) =
    both_added (if list_any (is_beside r) seen then [] else signatures_of z r) (signatures z (r ∷ seen) rs) (either (list_any (is_beside r) seen) (signatures_of z r) (of_added z r)) (signatures_added z (r ∷ seen) rs)

ds_added : (z : ZoneState) (r : ZoneReply) → AreAdded (ds_records z r)
ds_added z r = added (is_ds_of r.authority) (λ d h. or_right (is_of 46 d || is_of 47 d) (is_of 50 d || is_of 43 d) (or_right (is_of 50 d) (is_of 43 d) (and_parts (is_of 43 d) (list_any _ r.authority) h).0)) z.records

pub signing_adds : SigningAdds
signing_adds z proofs r h = record {
  aa = refl;
  rcode = refl;
  answers = record { more = signatures z [] r.answers; whole = refl; added = signatures_added z [] r.answers };
  authority =
      let all = (r.authority ++ ds_records z r) ++ proofs in
      let more = ds_records z r ++ (proofs ++ signatures z [] all) in
      record {
        more = more;
        whole = append_assoc (r.authority ++ ds_records z r) proofs (signatures z [] all) ∙ append_assoc r.authority (ds_records z r) (proofs ++ signatures z [] all);
        added = both_added (ds_records z r) (proofs ++ signatures z [] all) (ds_added z r) (both_added proofs (signatures z [] all) h (signatures_added z [] all));
      };
  additional = record { more = signatures z [] r.additional; whole = refl; added = signatures_added z [] r.additional };
}
