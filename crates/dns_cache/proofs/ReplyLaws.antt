-- Kept replies as a request gets them.
use Rattle.std.proofs.Common.{◌≡◌, ℕ, ◌+◌, ◌-◌, ◌<◌, ◌≤◌, Bool, true, false, ◌&&◌, List, [], ◌∷◌, ◌++◌, map, length, take, take_all, drop, Option, Some, None, Result, Ok, refl, ap, ap₂, sym, subst, ◌∙◌, arith, length-append, length-drop, lt-ltb}
use Rattle.std.specs.Prelude.{is_ok, is_some, nat_lt, if◌then◌else◌, flat_map}
use Rattle.std.specs.Map.{lookup}
use Rattle.std.proofs.lemmas.Bool.{le-leb, leb-true}
use Rattle.dns_name.specs.declared.error.ParseError.{ParseError}
use Rattle.dns_name.specs.Labels.{spell}
use Rattle.dns_name.specs.Place.{two}
use Rattle.dns_message.specs.declared.header.Header.{Header}
use Rattle.dns_message.specs.declared.question.Question.{Question}
use Rattle.dns_base.specs.Header.{IsHeader, header_octets, header_of}
use Rattle.dns_base.specs.Msg.{HasName, IsMessage, Msg}
use Rattle.dns_base.specs.Replaced.{other_than}
use Rattle.dns_base.specs.Sections.{message_of, questions_of}
use Rattle.dns_base.specs.Wire.{question_octets, record_octets, wire}
use Rattle.dns_opt.specs.OptRecords.{OptState}
use Rattle.dns_service.specs.Copied.{copied}
use Rattle.dns_service.specs.LastOpt.{and_opt}
use Rattle.dns_service.specs.Req.{Req}
use Rattle.dns_route.specs.ReplyMessage.{reply_message, reply_with_opt}
use Rattle.dns_cache.specs.Aged.{aged, aged_record, asked_header}
use Rattle.dns_cache.specs.AskedCache.{Cached, KeptReply, bare_octets, with_used, comes_back, fits_frame, is_whole, may_keep, where_kept}
use Rattle.dns_cache.specs.Steps.{ComposesShort, used_where}
use Rattle.dns_cache.specs.Keys.{AskedKey, same_key}
use Rattle.dns_cache.specs.Marks.{IsKept, IsListed, MarksFit, aged_octets, mark_of, opt_size}
use Rattle.dns_cache.specs.Ttls.{least_ttl, records_of}
use Rattle.dns_cache.specs.declared.marks.Mark.{Mark}
use Rattle.dns_cache.proofs.AgedLaws.{aged_size, marks_fit, records_aged, wire_aged}
use Rattle.dns_cache.proofs.KeptLaws.{bare_copied, less_by}
use Rattle.dns_cache.proofs.TypedLaws.{aged_lawful, aged_opt, opt_lawful}

header_same : (o : List ℕ) → header_of o ≡ (message_of o).header
unfolding message_of
header_same o = refl

opt_header : (m : Msg) (opt : Option OptState) → (and_opt m opt).header ≡ m.header
opt_header m None = refl
opt_header m (Some s) = refl

asked_lawful : (h r : Header) → IsHeader h → IsHeader r → IsHeader (asked_header h r)
asked_lawful h r a b = record { id = b.id; opcode = a.opcode; rcode = a.rcode }

module _ (o : List ℕ) (start : ℕ) (marks : List Mark) (k : IsKept o start marks) where
  pub kept_fit : MarksFit marks (drop start o)
  kept_fit = subst (λ (ks : List Mark). MarksFit ks (drop start o)) (sym k.marked) (subst (MarksFit (map mark_of (records_of (message_of o)))) (sym k.begins) (marks_fit (records_of (message_of o))))

  pub kept_header : (r : Header) → IsHeader (asked_header (header_of o) r) → IsHeader (asked_header (message_of o).header r)
  kept_header r h = subst (λ (x : Header). IsHeader (asked_header x r)) (header_same o) h

  -- the octets of a kept message at an age
  pub octets_aged : (request : List ℕ) (age : ℕ) (q : Question) → (questions_of request).0 ≡ q ∷ [] → (header_octets (asked_header (header_of o) (header_of request)) ++ (0 ∷ 1 ∷ (take 6 (drop 6 o) ++ question_octets q))) ++ aged_octets age marks (drop start o) ≡ wire (aged (message_of o) request age)
  octets_aged request age q e =
      let m = message_of o in
      let rs = flat_map record_octets (map (aged_record age) (records_of m)) in
      let a : aged_octets age marks (drop start o) ≡ rs = ap₂ (aged_octets age) k.marked k.begins ∙ records_aged age (records_of m) in
      ap (λ (l : List ℕ). (header_octets (asked_header (header_of o) (header_of request)) ++ (0 ∷ 1 ∷ (take 6 (drop 6 o) ++ question_octets q))) ++ l) a
      ∙ (ap (λ (x : Header). (header_octets (asked_header x (header_of request)) ++ (0 ∷ 1 ∷ (take 6 (drop 6 o) ++ question_octets q))) ++ rs) (header_same o)
      ∙ (ap (λ (x : List ℕ). (header_octets (asked_header m.header (header_of request)) ++ (0 ∷ 1 ∷ (take 6 (drop 6 x) ++ question_octets q))) ++ rs) k.whole
      ∙ wire_aged m request age q e))

  -- the reply of these octets and the OPT record is the message at that age
  pub reply_aged : (opt : Option OptState) (request : List ℕ) (age : ℕ) (octets : List ℕ) → octets ≡ wire (aged (message_of o) request age) → IsMessage (aged (message_of o) request age) → reply_message (record { octets = octets; opt = opt }) ≡ Ok (aged (and_opt (message_of o) opt) request age)
  reply_aged opt request age octets e h =
      ap (reply_with_opt opt) (ap copied e ∙ k.copies request age None tt h) ∙ ap (λ (m : Msg). Ok m) (sym (aged_opt (message_of o) opt request age))

  -- those octets are the message at that age without its OPT record
  pub bare_aged : (opt : Option OptState) (request : List ℕ) (age : ℕ) → IsMessage (aged (message_of o) request age) → wire (aged (message_of o) request age) ≡ bare_octets (aged (and_opt (message_of o) opt) request age)
  bare_aged opt request age h =
      let m = aged (message_of o) request age in
      let b : other_than 41 m.additional ≡ m.additional = bare_copied (wire m) m (k.copies request age None tt h) in
      sym (ap bare_octets (aged_opt (message_of o) opt request age) ∙ ap wire (less_by m opt b))

  pub size_kept : (opt : Option OptState) (q : Question) (request : List ℕ) (age : ℕ) → (questions_of request).0 ≡ q ∷ [] → 12 + length (question_octets q) + (length o - start) + opt_size opt ≡ length (wire (aged (and_opt (message_of o) opt) request age))
  size_kept opt q request age e =
      let n : length o - start ≡ length (flat_map record_octets (records_of (message_of o))) = sym (length-drop start o) ∙ ap length k.begins in
      ap (λ n. 12 + length (question_octets q) + n + opt_size opt) n ∙ (sym (aged_size (message_of o) opt request age q e) ∙ ap (λ (m : Msg). length (wire m)) (sym (aged_opt (message_of o) opt request age)))

  pub readable_kept : (opt : Option OptState) (q : Question) (request : List ℕ) (age : ℕ) → IsListed opt → HasName q → (questions_of request).0 ≡ q ∷ [] → IsHeader (header_of request) → is_ok (copied (wire (aged (and_opt (message_of o) opt) request age))) ≡ true
  readable_kept opt q request age l n e h =
      let m = message_of o in
      ap (λ (m : Msg). is_ok (copied (wire m))) (aged_opt m opt request age)
      ∙ ap is_ok (k.copies request age opt l (opt_lawful (aged m request age) opt (aged_lawful m request age q k.lawful (asked_lawful m.header (header_of request) k.lawful.header h) n e)))

  -- its records are few
  pub short_kept : (opt : Option OptState) (q : Question) (request : List ℕ) (age : ℕ) → HasName q → (questions_of request).0 ≡ q ∷ [] → (length o - start) + opt_size opt ≤ 65264 → fits_frame (aged (and_opt (message_of o) opt) request age) ≡ true
  short_kept opt q request age n e few =
      let a = size_kept opt q request age e in
      let b = length-append (spell q.qname) (two q.qtype ++ two q.qclass) in
      le-leb (length (wire (aged (and_opt (message_of o) opt) request age))) 65535 (omega (arith, a, b, n.room, few))

-- ---- whether a message is kept

kept_by : (r : Req (Unit {0})) (e : KeptReply) (a b c : Bool) → a ≡ true → c ≡ true → e.secs ≡ r.received_secs → (if b then Some e else None) ≡ (if a && (b && c) then Some (record { secs = r.received_secs; message = e.message }) else None)
kept_by r e true true true p q s = ap (λ (n : ℕ). Some (record { secs = n; message = e.message })) s
kept_by r e true true false p q s = cc
kept_by r e true false c p q s = refl
kept_by r e false b c p q s = cc

-- a message that may be kept and is readable is kept exactly if it fits
pub where_fits : (r : Req (Unit {0})) (e : KeptReply) → e.secs ≡ r.received_secs → may_keep e.message ≡ true → is_ok (copied (wire (aged e.message r.octets 0))) ≡ true → (if fits_frame (aged e.message r.octets 0) then Some e else None) ≡ where_kept r e.message
where_fits r e s m c = kept_by r e (may_keep e.message) (fits_frame (aged e.message r.octets 0)) (is_ok (copied (wire (aged e.message r.octets 0)))) m c s

not_by : (r : Req (Unit {0})) (m : Msg) (a b : Bool) → a ≡ false → ◌≡◌ {A = Option KeptReply} None (if a && b then Some (record { secs = r.received_secs; message = m }) else None)
not_by r m true b h = cc
not_by r m false b h = refl

pub not_kept : (r : Req (Unit {0})) (m : Msg) → may_keep m ≡ false → ◌≡◌ {A = Option KeptReply} None (where_kept r m)
not_kept r m h = not_by r m (may_keep m) (comes_back (aged m r.octets 0)) h

-- what is after a place, as it is cut out
pub tail_all : (n : ℕ) (o : List ℕ) → take (length o - n) (drop n o) ≡ drop n o
tail_all n o = take_all (length o - n) (drop n o) (omega (arith, length-drop n o))

-- a message of a code that is kept may be kept exactly if its least TTL isn't 0
pub may_keep_by : (m : Msg) (n : ℕ) → is_whole m ≡ true → n ≡ least_ttl m → 0 < n → may_keep m ≡ true
may_keep_by m n h e l = both (is_whole m) (nat_lt 0 (least_ttl m)) h (lt-ltb 0 (least_ttl m) (subst (λ (k : ℕ). 0 < k) e l))
  where
    both : (a b : Bool) → a ≡ true → b ≡ true → (a && b) ≡ true
    both true b h g = g
    both false b h g = h

pub never_keep : (m : Msg) (n : ℕ) → n ≡ least_ttl m → n ≡ 0 → may_keep m ≡ false
never_keep m n e z = none (is_whole m) (least_ttl m) (sym e ∙ z)
  where
    none : (a : Bool) (k : ℕ) → k ≡ 0 → (a && nat_lt 0 k) ≡ false
    none true k h = ap (nat_lt 0) h
    none false k h = refl

-- ---- the entry that is used

-- what a reply is composed of
pub composes_short : (r : Result Msg ParseError) (m : Msg) → r ≡ Ok m → fits_frame m ≡ true → ComposesShort r
composes_short r m e h = subst ComposesShort (sym e) (leb-true (length (wire m)) 65535 h)

pub same_message : (b m : Msg) (r : Result Msg ParseError) → r ≡ Ok b → r ≡ Ok m → b ≡ m
same_message b m r e f = let same : Ok b ≡ Ok m = sym e ∙ f in cc

pub used_some : {A : Type 0} (r : Option A) (key : AskedKey) (c : Cached) → is_some r ≡ true → used_where r key c ≡ with_used key c (lookup (same_key key) c.entries)
used_some (Some r) key c h = refl
used_some None key c h = cc

pub used_none : {A : Type 0} (r : Option A) (key : AskedKey) (c : Cached) → is_some r ≡ false → used_where r key c ≡ c
used_none (Some r) key c h = cc
used_none None key c h = refl
