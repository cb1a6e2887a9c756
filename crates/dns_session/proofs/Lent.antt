-- Frames are taken from octets as they came, before which nothing is kept.
use Rattle.dns_session.specs.Serving.{Serving}
use Rattle.std.proofs.Common.{◌≡◌, ℕ, ◌-◌, ◌<◌, ◌≤◌, List, [], ◌++◌, length, take, drop, Option, Some, None, Bool, true, false, refl, ap, sym, ◌∙◌, subst}
use Rattle.std.specs.Prelude.{◌==◌, MatchOption}
use Rattle.std.proofs.lemmas.Bool.{eqb-true}
use Rattle.std.proofs.lemmas.List.{nil_from_length, take_rest}
use Rattle.dns_base.specs.Header.{header_of}
use Rattle.dns_framing.specs.Answer.{Answer}
use Rattle.dns_events.specs.declared.event.Why.TheVariants.{Short}
use Rattle.dns_framing.specs.Polls.{PolledRequest}
use Rattle.dns_session.specs.Frames.{first_frame, framed, frames}
use Rattle.dns_session.specs.Connections.{piece, take_frames}
use Rattle.dns_session.specs.Goings.{Leads, TakesLent, TakesMessage}
use Rattle.dns_session.specs.declared.connection.OpenConnection.{OpenConnection}
use Rattle.dns_session.specs.declared.outcome.Outcome.{Outcome}
use Rattle.dns_session.specs.declared.outcome.Outcome.TheVariants.{Nothing, Ends}
use Rattle.dns_framing.proofs.FramesLemmas.{first-framed, frames_none}
use Rattle.dns_session.proofs.Taking.{TakesOn, fed, none_left, one_more, taken_or_short}

pub nothing_kept : (o : List ℕ) → (length o == 0) ≡ true → o ≡ []
nothing_kept o h = nil_from_length o (eqb-true (length o) 0 h)

pub rest_shorter : (o : List ℕ) (n : ℕ) → length (drop n o) < length o → length (take (length o - n) (drop n o)) < length o
rest_shorter o n h = subst (λ (x : List ℕ). length x < length o) (sym (take_rest o n)) h

module _ {W R F : Type 0} (answer : PolledRequest F R → ℕ → Answer) (answers : Serving) (at secs : ℕ) where
  -- a message is taken in the same way whatever octets are kept, and leaves them
  beside : (r : List ℕ) (old new : OpenConnection W R F) (o : List ℕ) → TakesMessage answer answers at secs old new o → TakesMessage answer answers at secs (record old { framer = r }) (record new { framer = r }) o
  beside r old new o h = record {
    response = λ q. ap (λ (x : OpenConnection W R F). record x { framer = r }) (h.response q);
    query = λ q. let a = h.query q in record { others = ap (λ (x : OpenConnection W R F). record x { framer = r }) a.others; made = a.made };
  }

  stays : (old new : OpenConnection W R F) (o : List ℕ) → TakesMessage answer answers at secs old new o → (b : Bool) → (header_of o).qr ≡ b → new.framer ≡ old.framer
  stays old new o h true is = ap (λ (x : OpenConnection W R F). x.framer) (h.response is)
  stays old new o h false is = let a = h.query is in ap (λ (x : OpenConnection W R F). x.framer) a.others

  -- the first frame of octets is taken, or ends the connection
  pub lent_or_short : (c new : OpenConnection W R F) (o f : List ℕ) (n : ℕ) (ended : Option Outcome) → c.framer ≡ [] → n ≤ length o → o ≡ framed f ++ drop n o
      → MatchOption ended ((12 ≤ length f) × TakesMessage answer answers at secs (record c { timer = at }) new f) (λ outcome. (outcome ≡ Ends Short) × (length f < 12))
      → MatchOption ended (TakesLent answer answers at secs c new o n) (λ outcome. Leads answer answers (record c { framer = o }) new outcome (λ s. take_frames at secs (frames o) s))
  lent_or_short c new o f n None empty within is h =
      let e : first_frame o ≡ Some (f, drop n o) = ap first_frame is ∙ first-framed f (drop n o) in
      let m : (12 ≤ length f) × TakesMessage answer answers at secs (record c { framer = drop n o; timer = at }) (record new { framer = drop n o }) f = (h.0, beside (drop n o) (record c { timer = at }) new f h.1) in
      record {
        within = within;
        empty = stays (record c { timer = at }) new f h.1 (header_of f).qr refl ∙ empty;
        takes = taken_or_short answer answers at secs (record c { framer = o }) (record new { framer = drop n o }) f (drop n o) None e m;
      }
  lent_or_short c new o f n (Some outcome) empty within is h =
      let e : first_frame o ≡ Some (f, drop n o) = ap first_frame is ∙ first-framed f (drop n o) in
      taken_or_short answer answers at secs (record c { framer = o }) new f (drop n o) (Some outcome) e h

  -- octets that begin with no frame are kept
  pub kept_lent : (c new : OpenConnection W R F) (o : List ℕ) (n : ℕ) (ended : Option Outcome) → c.framer ≡ [] → first_frame o ≡ None → ended ≡ Some Nothing → new ≡ record c { framer = c.framer ++ o }
      → MatchOption ended (TakesLent answer answers at secs c new o n) (λ outcome. Leads answer answers (record c { framer = o }) new outcome (λ s. take_frames at secs (frames o) s))
  kept_lent c new o n ended empty none is all =
      let e : new ≡ record c { framer = o } = all ∙ ap (λ (x : List ℕ). record c { framer = x ++ o }) empty in
      rw is (subst (λ (x : OpenConnection W R F). Leads answer answers (record c { framer = o }) x Nothing (λ s. take_frames at secs (frames o) s)) (sym e) (none_left answer answers at secs (record c { framer = o }) (frames_none o none)))

  -- one frame more of a piece is taken
  pub lent_more : (c l new : OpenConnection W R F) (p o : List ℕ) (n : ℕ) → TakesOn answer answers at secs (record c { framer = p }) (record l { framer = o }) → TakesLent answer answers at secs l new o n
      → TakesOn answer answers at secs (record c { framer = p }) (record new { framer = take (length o - n) (drop n o) })
  lent_more c l new p o n left t =
      subst (λ (x : List ℕ). TakesOn answer answers at secs (record c { framer = p }) (record new { framer = x })) (sym (take_rest o n))
      (one_more answer answers at secs (record c { framer = p }) (record l { framer = o }) (record new { framer = drop n o }) left t.takes)

  -- a piece before which nothing is kept is all that is kept
  pub fed_lent : (c new : OpenConnection W R F) (p : List ℕ) (outcome : Outcome) → c.framer ≡ []
      → Leads answer answers (record c { framer = p }) new outcome (λ s. take_frames at secs (frames p) s)
      → Leads answer answers c new outcome (λ s. piece at secs p s)
  fed_lent c new p outcome empty all =
      let e : p ≡ c.framer ++ p = ap (λ (x : List ℕ). x ++ p) (sym empty) in
      fed answer answers at secs c new p outcome (subst (λ (x : List ℕ). Leads answer answers (record c { framer = x }) new outcome (λ s. take_frames at secs (frames x) s)) e all)
