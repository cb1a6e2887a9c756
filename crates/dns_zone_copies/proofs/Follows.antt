-- The secondaries of a configuration's zones, one by one.
use Rattle.std.proofs.Common.{◌≡◌, ◌∙◌, ◌+◌, ◌<◌, ◌≤◌, ℕ, List, [], ◌∷◌, ◌++◌, Option, ap, append-nil, append_assoc, drop, get_or, length, refl, subst, sym}
use Rattle.std.proofs.lemmas.List.{drop_all, drop_more}
use Rattle.std.specs.Option.{option_to_list}
use Rattle.dns_config.specs.declared.config.ZoneEntry.{ZoneEntry}
use Rattle.dns_generation.specs.declared.generation.ZoneSummary.{ZoneSummary}
use Rattle.dns_tsig.specs.Keys.{KeyParts}
use Rattle.dns_zone_copies.specs.Following.{Follows, HasSecondary}
use Rattle.dns_zone_copies.specs.Secondaries.{SecondaryState}

module _ (zones : List SecondaryState) (keys : List KeyParts) (es : List ZoneEntry) (ss : List ZoneSummary) (now : ℕ) where
  -- those of the entries that are left make those of all with what is there
  abbrev pub Makes : List ZoneEntry → List ZoneSummary → List SecondaryState → Type 0
  Makes entries left there = (rest : List SecondaryState) → Follows zones keys entries left now rest → Follows zones keys es ss now (there ++ rest)

  pub makes_more : (i : ℕ) (e : ZoneEntry) (s : ZoneSummary) (left later : List ZoneSummary) (first : Option SecondaryState) (there more : List SecondaryState) → i < length es → e ≡ get_or es i e → left ≡ s ∷ later → HasSecondary zones keys e e.primary s.timers now first → more ≡ there ++ option_to_list first → Makes (drop i es) left there → Makes (drop (i + 1) es) later more
  makes_more i e s left later first there more lt is left_is has more_is makes = λ rest h.
      let others : List SecondaryState = option_to_list first ++ rest in
      let behind : List ZoneEntry = drop (i + 1) es in
      let at : drop i es ≡ e ∷ behind = drop_more es i e lt ∙ ap (λ (x : ZoneEntry). x ∷ behind) (sym is) in
      let one : Follows zones keys (e ∷ behind) (s ∷ later) now others = (first, rest, has, refl, h) in
      let here : Follows zones keys (e ∷ behind) left now others = subst (λ (zs : List ZoneSummary). Follows zones keys (e ∷ behind) zs now others) (sym left_is) one in
      let all : Follows zones keys (drop i es) left now others = subst (λ (xs : List ZoneEntry). Follows zones keys xs left now others) (sym at) here in
      let same : there ++ others ≡ more ++ rest = sym (ap (λ (xs : List SecondaryState). xs ++ rest) more_is ∙ append_assoc there (option_to_list first) rest) in
      subst (λ (xs : List SecondaryState). Follows zones keys es ss now xs) same (makes others all)

  no_summary : (entries : List ZoneEntry) → Follows zones keys entries [] now []
  no_summary [] = refl
  no_summary (e ∷ entries) = refl

  ended : (there : List SecondaryState) → Follows zones keys es ss now (there ++ []) → Follows zones keys es ss now there
  ended there h = subst (λ (xs : List SecondaryState). Follows zones keys es ss now xs) (append-nil there) h

  -- no summary is left
  pub makes_short : (entries : List ZoneEntry) (left : List ZoneSummary) (there : List SecondaryState) → left ≡ [] → Makes entries left there → Follows zones keys es ss now there
  makes_short entries left there e makes = ended there (makes [] (subst (λ (zs : List ZoneSummary). Follows zones keys entries zs now []) (sym e) (no_summary entries)))

  -- no entry is left
  pub makes_all : (i : ℕ) (left : List ZoneSummary) (there : List SecondaryState) → length es ≤ i → Makes (drop i es) left there → Follows zones keys es ss now there
  makes_all i left there h makes =
      let one : Follows zones keys [] left now [] = refl in
      ended there (makes [] (subst (λ (xs : List ZoneEntry). Follows zones keys xs left now []) (sym (drop_all i es h)) one))
