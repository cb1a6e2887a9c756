-- SipHash-2-4, the hash of server cookies (RFC 9018 4.4), as a fold over the little-endian words of a
-- message. All sums are modulo 2 ^ 64.
use Rattle.std.specs.Prelude.{ℕ, zero, suc, ◌+◌, ◌*◌, ◌/◌, ◌%◌, ◌^◌, List, [], ◌∷◌, ◌++◌, length, take, drop, bit_xor, fold}
use Rattle.std.specs.Int.{w64, rotate_left}
use Rattle.dns_cookie.specs.declared.siphash.State.{State}

-- ---- the state, four words

-- a sum modulo 2 ^ 64
abbrev pub sum64 : ℕ → ℕ → ℕ
sum64 x y = (x + y) % 2 ^ 64

-- the second half of a round
abbrev pub round_end : ℕ → ℕ → ℕ → ℕ → State
round_end v0 v1 v2 v3 =
    let w0 = sum64 v0 v3 in
    let w2 = sum64 v2 v1 in
    record { v0 = w0; v1 = bit_xor (rotate_left w64 v1 17) w2; v2 = rotate_left w64 w2 32; v3 = bit_xor (rotate_left w64 v3 21) w0 }

-- a round
unfoldable pub round : State → State
round s =
    let v0 = sum64 s.v0 s.v1 in
    let v2 = sum64 s.v2 s.v3 in
    round_end (rotate_left w64 v0 32) (bit_xor (rotate_left w64 s.v1 13) v0) v2 (bit_xor (rotate_left w64 s.v3 16) v2)

-- the state under the key's two halves
abbrev pub start : ℕ → ℕ → State
start k0 k1 = record {
  v0 = bit_xor k0 0x736f_6d65_7073_6575;
  v1 = bit_xor k1 0x646f_7261_6e64_6f6d;
  v2 = bit_xor k0 0x6c79_6765_6e65_7261;
  v3 = bit_xor k1 0x7465_6462_7974_6573;
}

-- the state after a word: two rounds between two exclusive ors
abbrev pub take_word : State → ℕ → State
take_word s m =
    let t = round (round (record s { v3 = bit_xor s.v3 m })) in
    record t { v0 = bit_xor t.v0 m }

-- the hash of a state: four rounds, and the exclusive or of the words
abbrev pub finish : State → ℕ
finish s =
    let t = round (round (round (round (record s { v2 = bit_xor s.v2 0xff })))) in
    bit_xor (bit_xor (bit_xor t.v0 t.v1) t.v2) t.v3

-- ---- the words of a message

-- the little-endian number that octets are
abbrev pub word : List ℕ → ℕ
word [] = 0
word (x ∷ xs) = x + 256 * word xs

-- the first k words of eight octets
abbrev pub whole_words : ℕ → List ℕ → List ℕ
whole_words zero o = []
whole_words (suc k) o = word (take 8 o) ∷ whole_words k (drop 8 o)

-- the words of what is left of a message of n octets: the whole words, and a last one that holds the
-- rest and, as its top octet, n modulo 256
unfoldable pub words : ℕ → List ℕ → List ℕ
words n o = whole_words (length o / 8) o ++ (word (drop (length o / 8 * 8) o) + n % 256 * 2 ^ 56) ∷ []

-- ---- the hash

-- SipHash-2-4 of the octets under a key of 16 octets
unfoldable pub sip : List ℕ → List ℕ → ℕ
sip key o = finish (fold take_word (start (word (take 8 key)) (word (drop 8 key))) (words (length o) o))
