-- Typed data that is written is read again.
use Rattle.std.proofs.Common.{◌≡◌, ℕ, ◌+◌, ◌≤◌, List, [], ◌++◌, length, take, drop, Ok, refl, ap, sym, ◌∙◌, arith, true, false, nat_lt, length-append, length-drop, length-take, append-nil}
use Rattle.std.proofs.lemmas.List.{drop-take}
use Rattle.std.proofs.Math.Seq.{take-append_seam, drop-append_seam}
use Rattle.std.proofs.lemmas.Bool.Decides.{nat_tests}
use Rattle.dns_name.specs.Place.{Read, two, four}
use Rattle.dns_name.specs.Labels.{spell, IsName}
use Rattle.dns_name.specs.Names.{name_by, name_within}
use Rattle.dns_name.proofs.Spelt.{rest_spelt}
use Rattle.dns_message.specs.declared.rdata.RecordData.{RecordData}
use Rattle.dns_message.specs.declared.rdata.RecordData.TheVariants.{A, Aaaa, Named, Soa, Minfo, Mx, Srv, Opt, Unknown}
use Rattle.dns_name.specs.declared.serial.Serial.{Serial}
use Rattle.dns_message.specs.Options.{IsOptionList}
use Rattle.dns_message.specs.Records.{data_octets, data_type, IsLawful}
use Rattle.dns_message.specs.declared.zone.ZoneNumbers.{ZoneNumbers}
use Rattle.dns_message.specs.Zone.{ttls_at, zone_at, zone_octets}
use Rattle.dns_message.specs.Standing.{address_at, data_at, filled, long_address_at, minfo_at, mx_at, names_at, numbered_at, one_name_at, opt_read, soa_at, srv_at}
use Rattle.dns_message.specs.TypedData.{HasNames, IsTyped}
use Rattle.dns_message.proofs.Written.{past, two_written, four_written, octets_written}

-- what follows octets that end a list
alone : (o a : List ℕ) (at : ℕ) → drop at o ≡ a → drop at o ≡ a ++ []
alone o a at h = h ∙ sym (append-nil a)

name_written : (ls : List (List ℕ)) (o more : List ℕ) (limit at : ℕ) → IsName ls → drop at (take limit o) ≡ spell ls ++ more → name_within o limit at ≡ Ok (ls, at + length (spell ls))
unfolding name_by
name_written ls o more limit at n h = rest_spelt ls (record { limit = limit; pointers = true }) o more at 0 0 h n.labels n.room

-- data that stands at a place up to a limit is read there
address_written : (a o : List ℕ) (limit at : ℕ) → length a ≡ 4 → drop at (take limit o) ≡ a → address_at o limit at ≡ Ok (A a, at + length a)
unfolding address_at
address_written a o limit at l h =
    let b = octets_written (take limit o) [] a at (alone (take limit o) a at h) in
    rw (rw l at b) (ap (λ n. Ok (A a, at + n)) (sym l))

long_address_written : (a o : List ℕ) (limit at : ℕ) → length a ≡ 16 → drop at (take limit o) ≡ a → long_address_at o limit at ≡ Ok (Aaaa a, at + length a)
unfolding long_address_at
long_address_written a o limit at l h =
    let b = octets_written (take limit o) [] a at (alone (take limit o) a at h) in
    rw (rw l at b) (ap (λ n. Ok (Aaaa a, at + n)) (sym l))

one_name_written : (t : ℕ) (n : List (List ℕ)) (o : List ℕ) (limit at : ℕ) → IsName n → drop at (take limit o) ≡ spell n → one_name_at t o limit at ≡ Ok (Named t n, at + length (spell n))
unfolding one_name_at
one_name_written t n o limit at i h = rw (name_written n o [] limit at i (alone (take limit o) (spell n) at h)) refl

names_written : (a b : List (List ℕ)) (o more : List ℕ) (limit at : ℕ) → IsName a → IsName b → drop at (take limit o) ≡ spell a ++ (spell b ++ more) → names_at o limit at ≡ Ok ((a, b), at + length (spell a) + length (spell b))
unfolding names_at
names_written a b o more limit at i j h =
    let x = name_written a o (spell b ++ more) limit at i h in
    let y = name_written b o more limit (at + length (spell a)) j (past (take limit o) (spell a) (spell b ++ more) at h) in
    rw (x, y) refl

numbered_written : (p : ℕ) (n : List (List ℕ)) (o : List ℕ) (limit at : ℕ) → IsName n → drop at (take limit o) ≡ two p ++ spell n → numbered_at o limit at ≡ Ok ((p, n), at + 2 + length (spell n))
unfolding numbered_at
numbered_written p n o limit at i h =
    let v = take limit o in
    let x = two_written v (spell n) at p h in
    let y = name_written n o [] limit (at + 2) i (alone v (spell n) (at + 2) (past v (two p) (spell n) at h)) in
    rw (x, y) refl

minfo_written : (a b : List (List ℕ)) (o : List ℕ) (limit at : ℕ) → IsName a → IsName b → drop at (take limit o) ≡ spell a ++ spell b → minfo_at o limit at ≡ Ok (Minfo a b, at + length (spell a ++ spell b))
unfolding minfo_at
minfo_written a b o limit at i j h =
    let x = names_written a b o [] limit at i j (h ∙ ap (λ l. spell a ++ l) (sym (append-nil (spell b)))) in
    let e : at + length (spell a) + length (spell b) ≡ at + length (spell a ++ spell b) = omega (arith, length-append (spell a) (spell b)) in
    rw x (ap (λ n. Ok (Minfo a b, n)) e)

mx_written : (p : ℕ) (n : List (List ℕ)) (o : List ℕ) (limit at : ℕ) → IsName n → drop at (take limit o) ≡ two p ++ spell n → mx_at o limit at ≡ Ok (Mx p n, at + length (two p ++ spell n))
unfolding mx_at
mx_written p n o limit at i h =
    let e : at + 2 + length (spell n) ≡ at + length (two p ++ spell n) = omega arith in
    rw (numbered_written p n o limit at i h) (ap (λ k. Ok (Mx p n, k)) e)

srv_written : (p w q : ℕ) (n : List (List ℕ)) (o : List ℕ) (limit at : ℕ) → IsName n → drop at (take limit o) ≡ two p ++ (two w ++ (two q ++ spell n)) →
    srv_at o limit at ≡ Ok (Srv p w q n, at + length (two p ++ (two w ++ (two q ++ spell n))))
unfolding srv_at
srv_written p w q n o limit at i h =
    let v = take limit o in
    let x = two_written v (two w ++ (two q ++ spell n)) at p h in
    let h1 = past v (two p) (two w ++ (two q ++ spell n)) at h in
    let y = two_written v (two q ++ spell n) (at + 2) w h1 in
    let z = numbered_written q n o limit (at + 2 + 2) i (past v (two w) (two q ++ spell n) (at + 2) h1) in
    let e : at + 2 + 2 + 2 + length (spell n) ≡ at + length (two p ++ (two w ++ (two q ++ spell n))) = omega arith in
    rw (x, y, z) (ap (λ k. Ok (Srv p w q n, k)) e)

ttls_written : (a b : ℕ) (o more : List ℕ) (at : ℕ) → drop at o ≡ four a ++ (four b ++ more) → ttls_at o at ≡ Ok ((a, b), at + 8)
unfolding ttls_at
ttls_written a b o more at h =
    let x = four_written o (four b ++ more) at a h in
    let y = four_written o more (at + 4) b (past o (four a) (four b ++ more) at h) in
    let e : at + 4 + 4 ≡ at + 8 = omega arith in
    rw (x, y) (ap (λ n. Ok ((a, b), n)) e)

zone_written : (z : ZoneNumbers) (o : List ℕ) (at : ℕ) → drop at o ≡ zone_octets z → zone_at o at ≡ Ok (z, at + 20)
unfolding zone_at
zone_written z o at h =
    let late : List ℕ = four z.expire ++ four z.minimum in
    let early : List ℕ = four z.refresh ++ four z.retry in
    let a = four_written o (early ++ late) at z.serial.0 h in
    let h1 = past o (four z.serial.0) (early ++ late) at h in
    let b = ttls_written z.refresh z.retry o late (at + 4) h1 in
    let c = ttls_written z.expire z.minimum o [] (at + 4 + 8) (past o early late (at + 4) h1) in
    let k : at + 4 + 8 + 8 ≡ at + 20 = omega arith in
    rw (a, b, c) (ap (λ n. Ok (z, n)) k)

soa_written : (m r : List (List ℕ)) (s : Serial) (f t e n : ℕ) (o : List ℕ) (limit at : ℕ) → IsName m → IsName r → drop at (take limit o) ≡ data_octets (Soa m r s f t e n) →
    soa_at o limit at ≡ Ok (Soa m r s f t e n, at + length (data_octets (Soa m r s f t e n)))
unfolding soa_at
soa_written m r s f t e n o limit at i j h =
    let v = take limit o in
    let z : ZoneNumbers = record { serial = s; refresh = f; retry = t; expire = e; minimum = n } in
    let p = at + length (spell m) + length (spell r) in
    let x = names_written m r o (zone_octets z) limit at i j h in
    let h1 = past v (spell r) (zone_octets z) (at + length (spell m)) (past v (spell m) (spell r ++ zone_octets z) at h) in
    let k : p + 20 ≡ at + length (spell m ++ (spell r ++ zone_octets z)) = omega (arith, length-append (spell m) (spell r ++ zone_octets z), length-append (spell r) (zone_octets z)) in
    rw (x, zone_written z v p h1) (ap (λ k. Ok (Soa m r s f t e n, k)) k)

opt_written : (d : List ℕ) (limit : ℕ) → IsOptionList d → opt_read d limit ≡ Ok (Opt d, limit)
opt_written d limit h = rw h refl

-- where the octets that go up to a limit end
ends_by : (o d : List ℕ) (limit at : ℕ) → drop at (take limit o) ≡ d → limit ≤ length o → limit ≤ at + length d
ends_by o d limit at h l = omega (arith, ap length h, length-drop at (take limit o), length-take limit o)

filled_by : (d : RecordData) (limit end : ℕ) → limit ≤ end → filled limit (Ok (d, end)) ≡ Ok d
filled_by d limit end h = let e : nat_lt end limit ≡ false = grind (arith, nat_tests) in rw e refl

-- what is read up to the limit is the data
read_up_to : (r : Read RecordData) (d : RecordData) (limit end : ℕ) → r ≡ Ok (d, end) → limit ≤ end → filled limit r ≡ Ok d
read_up_to r d limit end e h = rw e (filled_by d limit end h)

data_here : (d : RecordData) (o : List ℕ) (limit at : ℕ) → IsLawful d → HasNames d → drop at (take limit o) ≡ data_octets d → limit ≤ length o → data_at (data_type d) o limit at ≡ Ok d
unfolding data_at
data_here (A a) o limit at l n h k = read_up_to _ _ _ _ (address_written a o limit at l h) (ends_by o a limit at h k)
data_here (Aaaa a) o limit at l n h k = read_up_to _ _ _ _ (long_address_written a o limit at l h) (ends_by o a limit at h k)
data_here (Named t a) o limit at l n h k = rw l (read_up_to _ _ _ _ (one_name_written t a o limit at n h) (ends_by o (spell a) limit at h k))
data_here (Soa m r s f t e u) o limit at l n h k = read_up_to _ _ _ _ (soa_written m r s f t e u o limit at n.0 n.1 h) (ends_by o (data_octets (Soa m r s f t e u)) limit at h k)
data_here (Minfo a b) o limit at l n h k = read_up_to _ _ _ _ (minfo_written a b o limit at n.0 n.1 h) (ends_by o (spell a ++ spell b) limit at h k)
data_here (Mx p a) o limit at l n h k = read_up_to _ _ _ _ (mx_written p a o limit at n h) (ends_by o (two p ++ spell a) limit at h k)
data_here (Srv p w q a) o limit at l n h k = read_up_to _ _ _ _ (srv_written p w q a o limit at n h) (ends_by o (two p ++ (two w ++ (two q ++ spell a))) limit at h k)
data_here (Opt d) o limit at l n h k = rw h (read_up_to _ _ _ _ (opt_written d limit l.0) (omega arith))
data_here (Unknown t d) o limit at l n h k = rw (l.0, h) (filled_by (Unknown t d) limit limit (omega arith))

-- data that stands at a place with anything after it
pub data_written : (d : RecordData) (o more : List ℕ) (at : ℕ) → IsTyped d → drop at o ≡ data_octets d ++ more → at ≤ length o → data_at (data_type d) o (at + length (data_octets d)) at ≡ Ok d
data_written d o more at i h k =
    let x = data_octets d in
    let a : drop at (take (at + length x) o) ≡ x = drop-take at (length x) o ∙ (ap (take (length x)) h ∙ take-append_seam x more) in
    data_here d o (at + length x) at i.lawful i.names a (omega (arith, ap length h, length-append x more, length-drop at o))

-- with anything before it
pub data_between : (d : RecordData) (before behind : List ℕ) → IsTyped d → data_at (data_type d) (before ++ (data_octets d ++ behind)) (length before + length (data_octets d)) (length before) ≡ Ok d
data_between d before behind i = data_written d (before ++ (data_octets d ++ behind)) behind (length before) i (drop-append_seam before (data_octets d ++ behind)) (omega (arith, length-append before (data_octets d ++ behind)))
