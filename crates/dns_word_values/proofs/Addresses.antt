-- The address that a text spells, and when it spells none.
use Rattle.std.proofs.Common.{◌≡◌, ℕ, List, [], ◌∷◌, ◌++◌, Option, Some, None, length, refl, ap, sym, subst, ◌∙◌, append-nil, arith, lit≤, ne_eqb}
use Rattle.std.specs.Prelude.{option_map}
use Rattle.std.specs.Net.Addr.{ipv4_octets, ipv6_octets, ipv6_segments, octets_of}
use Rattle.std.specs.Net.Grammar.{IsColonHex, IsDotted, IsIpv4Text, IsIpv6Text}
use Rattle.std.specs.Net.Reader.{Read, read_ipv4, read_ipv6, whole_value}
use Rattle.std.specs.declared.net.ipv4_addr.Ipv4Addr.{Ipv4Addr}
use Rattle.std.specs.declared.net.ipv6_addr.Ipv6Addr.{Ipv6Addr}
use Rattle.std.proofs.NetLemmas.Ipv4.{read_ipv4_complete, read_ipv4_sound}
use Rattle.std.proofs.NetLemmas.Ipv6.{EndsGroups-nil, read_ipv6_complete, read_ipv6_sound}
use Rattle.dns_word_values.specs.Values.{long_address, quad}

-- a reader that never comes to the end of a text finds nothing in it
at_rest : {B : Type 0} (x : B) (rest : List ℕ) → (rest ≡ [] → ⊥) → whole_value (Some (x, rest)) ≡ None
at_rest x [] h = absurd (h refl)
at_rest x (c ∷ rest) h = rw (ne_eqb (length (c ∷ rest)) 0 (omega arith)) refl

never_whole : {B : Type 0} (read : Read B) → ((x : B) (rest : List ℕ) → read ≡ Some (x, rest) → rest ≡ [] → ⊥) → whole_value read ≡ None
never_whole None h = refl
never_whole (Some p) h = at_rest p.0 p.1 (h p.0 p.1 refl)

pub dotted_found : (w o : List ℕ) → IsDotted w o → quad w ≡ Some o
dotted_found w o h = ap whole_value (rw append-nil at (read_ipv4_complete w o [] h (lit≤ tt)))

pub quad_found : (w : List ℕ) (a : Ipv4Addr) → IsIpv4Text w a → quad w ≡ Some (ipv4_octets a)
quad_found w a h = dotted_found w (ipv4_octets a) h

dotted_whole : (w o rest : List ℕ) → read_ipv4 w ≡ Some (o, rest) → rest ≡ [] → IsDotted w o
dotted_whole w o rest e left =
    let (front, split, spells) = read_ipv4_sound w o rest e in
    subst (λ t. IsDotted t o) (sym (split ∙ (ap (λ t. front ++ t) left ∙ append-nil front))) spells

pub quad_none : (w : List ℕ) → ((a : Ipv4Addr) → ¬ (IsIpv4Text w a)) → quad w ≡ None
quad_none w h = never_whole (read_ipv4 w) (λ o rest e left. h (record { octets = o }) (dotted_whole w o rest e left))

pub groups_found : (w s : List ℕ) → IsColonHex w s → long_address w ≡ Some (octets_of s)
groups_found w s h = ap (λ r. option_map octets_of (whole_value r)) (rw append-nil at (read_ipv6_complete w s [] h EndsGroups-nil))

pub long_found : (w : List ℕ) (a : Ipv6Addr) → IsIpv6Text w a → long_address w ≡ Some (ipv6_octets a)
long_found w a h = groups_found w (ipv6_segments a) h

groups_whole : (w s rest : List ℕ) → read_ipv6 w ≡ Some (s, rest) → rest ≡ [] → IsColonHex w s
groups_whole w s rest e left =
    let (front, split, spells) = read_ipv6_sound w s rest e in
    subst (λ t. IsColonHex t s) (sym (split ∙ (ap (λ t. front ++ t) left ∙ append-nil front))) spells

pub long_none : (w : List ℕ) → ((a : Ipv6Addr) → ¬ (IsIpv6Text w a)) → long_address w ≡ None
long_none w h = ap (option_map octets_of) (never_whole (read_ipv6 w) (λ s rest e left. h (record { segments = s }) (groups_whole w s rest e left)))
