-- Records in wire form, one after another.
use Rattle.std.proofs.Common.{◌≡◌, ℕ, ◌+◌, ◌<◌, List, [], ◌∷◌, ◌++◌, length, map, take, get_or, Option, None, ap, sym, ◌∙◌, append_assoc, append-nil}
use Rattle.std.specs.List.{cons_option, slice_get}
use Rattle.std.proofs.lemmas.List.{map-append, take_more}
use Rattle.std.proofs.lemmas.List.Elements.{filter_map-append}
use Rattle.dns_base.specs.Msg.{ResourceRecord}
use Rattle.dns_base.specs.Records.{record_of}
use Rattle.dns_message.specs.declared.record.Record.{Record}
use Rattle.dns_zone.specs.Places.{at_places}
use Rattle.dns_zone_tree.specs.Kinds.{places_of}
use Rattle.dns_zone_tree.specs.declared.kinds.TypedPlace.{TypedPlace}
use Rattle.dns_zone_tree.proofs.KindLaws.{places_next}

place_join : (rs : List Record) (xs ys : List ℕ) → map record_of (at_places rs (xs ++ ys)) ≡ map record_of (at_places rs xs) ++ map record_of (at_places rs ys)
place_join rs xs ys = ap (map record_of) (filter_map-append (slice_get rs) xs ys) ∙ map-append record_of (at_places rs xs) (at_places rs ys)

pub add_no : (rs : List Record) (place : ℕ) (old : List ResourceRecord) → None ≡ slice_get rs place → old ≡ old ++ map record_of (at_places rs (place ∷ []))
add_no rs place old e = sym (append-nil old) ∙ ap (λ (o : Option Record). old ++ map record_of (cons_option o [])) e

pub add_next : (rs : List Record) (is : List ℕ) (i : ℕ) (old now new : List ResourceRecord) → i < length is → now ≡ old ++ map record_of (at_places rs (take i is)) → new ≡ now ++ map record_of (at_places rs (get_or is i 0 ∷ [])) → new ≡ old ++ map record_of (at_places rs (take (i + 1) is))
add_next rs is i old now new h e f =
    f
    ∙ (ap (λ (l : List ResourceRecord). l ++ map record_of (at_places rs (get_or is i 0 ∷ []))) e
    ∙ (append_assoc old (map record_of (at_places rs (take i is))) (map record_of (at_places rs (get_or is i 0 ∷ [])))
    ∙ ap (λ (l : List ResourceRecord). old ++ l) (sym (ap (λ (x : List ℕ). map record_of (at_places rs x)) (take_more is i 0 h) ∙ place_join rs (take i is) (get_or is i 0 ∷ [])))))

-- those of a type
pub add_none : (rs : List Record) (is : List ℕ) (old : List ResourceRecord) → at_places rs is ≡ [] → old ≡ old ++ map record_of (at_places rs is)
add_none rs is old e = sym (append-nil old) ∙ ap (λ (l : List Record). old ++ map record_of l) (sym e)

pub kinds_next : (rs : List Record) (t : ℕ) (ks : List TypedPlace) (i : ℕ) (d : TypedPlace) (old now new : List ResourceRecord) → i < length ks → now ≡ old ++ map record_of (at_places rs (places_of t (take i ks))) →
    new ≡ now ++ map record_of (at_places rs (places_of t (get_or ks i d ∷ []))) → new ≡ old ++ map record_of (at_places rs (places_of t (take (i + 1) ks)))
kinds_next rs t ks i d old now new h e f =
    let one = places_of t (get_or ks i d ∷ []) in
    f
    ∙ (ap (λ (l : List ResourceRecord). l ++ map record_of (at_places rs one)) e
    ∙ (append_assoc old (map record_of (at_places rs (places_of t (take i ks)))) (map record_of (at_places rs one))
    ∙ ap (λ (l : List ResourceRecord). old ++ l) (sym (ap (λ (x : List ℕ). map record_of (at_places rs x)) (places_next t ks i d h) ∙ place_join rs (places_of t (take i ks)) one))))
