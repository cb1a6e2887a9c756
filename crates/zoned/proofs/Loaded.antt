-- The zones of a configuration, one by one.
use Rattle.std.proofs.Common.{◌≡◌, ◌∙◌, ◌+◌, ◌<◌, ◌≤◌, ℕ, if◌then◌else◌, List, [], ◌∷◌, ◌++◌, ap, append-nil, append_assoc, drop, get_or, length, refl, subst, sym}
use Rattle.std.proofs.lemmas.List.{drop_all, drop_more}
use Rattle.dns_config.specs.declared.config.ZoneEntry.{ZoneEntry}
use Rattle.dns_generation.specs.Generations.{GenerationState}
use Rattle.dns_generation.specs.declared.generation.ZoneSummary.{ZoneSummary}
use Rattle.dns_zone_copies.specs.Secondaries.{SecondaryState}
use Rattle.zoned.specs.Loading.{AreNear, AreWithout, EntryIsRead, ReadsAll, lacks}
use Rattle.zoned.specs.Zones.{without_data}

module _ (secondaries : List SecondaryState) (es : List ZoneEntry) where
  -- the entry at a place, and those behind it
  rest_from : (i : ℕ) (e : ZoneEntry) → i < length es → e ≡ get_or es i e → drop i es ≡ e ∷ drop (i + 1) es
  rest_from i e lt is = drop_more es i e lt ∙ ap (λ (x : ZoneEntry). x ∷ drop (i + 1) es) (sym is)

  module _ (zs : List ZoneSummary) where
    -- the summaries of the zones that are left make those of all with what is there
    abbrev pub Makes : List ZoneEntry → List ZoneSummary → List ZoneSummary → Type 0
    Makes entries left there =
        (rest : List ZoneSummary) → AreWithout secondaries entries left rest → AreWithout secondaries es zs (there ++ rest)

    pub makes_more : (i : ℕ) (e : ZoneEntry) (z : ZoneSummary) (left later : List ZoneSummary) (near : List SecondaryState) (o : ZoneSummary) (there more : List ZoneSummary) → i < length es → e ≡ get_or es i e → left ≡ z ∷ later → AreNear secondaries e near → o ≡ (if lacks e near then without_data else z) → more ≡ there ++ o ∷ [] → Makes (drop i es) left there → Makes (drop (i + 1) es) later more
    makes_more i e z left later near o there more lt is left_is its o_is more_is makes = λ rest h.
        let behind : List ZoneEntry = drop (i + 1) es in
        let one : AreWithout secondaries (e ∷ behind) (z ∷ later) (o ∷ rest) = (near, its, o_is, h) in
        let here : AreWithout secondaries (e ∷ behind) left (o ∷ rest) = subst (λ (x : List ZoneSummary). AreWithout secondaries (e ∷ behind) x (o ∷ rest)) (sym left_is) one in
        let all : AreWithout secondaries (drop i es) left (o ∷ rest) = subst (λ (x : List ZoneEntry). AreWithout secondaries x left (o ∷ rest)) (sym (rest_from i e lt is)) here in
        let same : there ++ o ∷ rest ≡ more ++ rest = sym (ap (λ (x : List ZoneSummary). x ++ rest) more_is ∙ append_assoc there (o ∷ []) rest) in
        subst (λ (x : List ZoneSummary). AreWithout secondaries es zs x) same (makes (o ∷ rest) all)

    ended : (there : List ZoneSummary) → AreWithout secondaries es zs (there ++ []) → AreWithout secondaries es zs there
    ended there h = subst (λ (x : List ZoneSummary). AreWithout secondaries es zs x) (append-nil there) h

    no_summary : (entries : List ZoneEntry) → AreWithout secondaries entries [] []
    no_summary [] = refl
    no_summary (e ∷ entries) = refl

    -- no summary is left
    pub makes_short : (entries : List ZoneEntry) (left there : List ZoneSummary) → left ≡ [] → Makes entries left there → AreWithout secondaries es zs there
    makes_short entries left there e makes = ended there (makes [] (subst (λ (x : List ZoneSummary). AreWithout secondaries entries x []) (sym e) (no_summary entries)))

    -- no entry is left
    pub makes_all : (i : ℕ) (left there : List ZoneSummary) → length es ≤ i → Makes (drop i es) left there → AreWithout secondaries es zs there
    makes_all i left there h makes =
        let one : AreWithout secondaries [] left [] = refl in
        ended there (makes [] (subst (λ (x : List ZoneEntry). AreWithout secondaries x left []) (sym (drop_all i es h)) one))

  module _ (start : GenerationState) where
    -- what the zones that are left lead to, all lead to
    abbrev pub Leads : List ZoneEntry → GenerationState → Type 0
    Leads entries now = (end : GenerationState) → ReadsAll secondaries entries now end → ReadsAll secondaries es start end

    pub leads_more : (i : ℕ) (e : ZoneEntry) (near : List SecondaryState) (now next : GenerationState) → i < length es → e ≡ get_or es i e → AreNear secondaries e near → EntryIsRead near e e.primary now next → Leads (drop i es) now → Leads (drop (i + 1) es) next
    leads_more i e near now next lt is its read leads = λ end h.
        let behind : List ZoneEntry = drop (i + 1) es in
        let one : ReadsAll secondaries (e ∷ behind) now end = (near, next, its, read, h) in
        leads end (subst (λ (x : List ZoneEntry). ReadsAll secondaries x now end) (sym (rest_from i e lt is)) one)

    -- none is left
    pub leads_all : (i : ℕ) (now : GenerationState) → length es ≤ i → Leads (drop i es) now → ReadsAll secondaries es start now
    leads_all i now h leads =
        let one : ReadsAll secondaries [] now now = refl in
        leads now (subst (λ (x : List ZoneEntry). ReadsAll secondaries x now now) (sym (drop_all i es h)) one)
