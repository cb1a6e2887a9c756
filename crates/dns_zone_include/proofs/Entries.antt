-- An entry of a text, by what a zone file alone makes of it.
use Rattle.std.proofs.Common.{◌≡◌, ℕ, List, Bool, true, false, Ok, Err, refl, ap, sym, ◌∙◌}
use Rattle.dns_entries.specs.declared.entry.Word.{Word}
use Rattle.dns_entries.specs.declared.reason.EntryReason.{EntryReason}
use Rattle.dns_zone_file.specs.ZoneFile.{ZoneDraft, after_entry}
use Rattle.dns_zone_include.specs.Including.{Included, entry_of, entry_or, include_of}
use Rattle.dns_zone_include.specs.Refusals.{is_include}
use Rattle.dns_zone_include.specs.declared.refusal.IncludeReason.TheVariants.{Entry}

pub entry_taken : (name : List ℕ) (include : Included) (d e : ZoneDraft) (line : ℕ) (blank : Bool) (ws : List Word) → after_entry d line blank ws ≡ Ok e → entry_of name include d line blank ws ≡ Ok e
unfolding entry_of
entry_taken name include d e line blank ws h = ap (entry_or name include d line ws) h

pub entry_refused : (name : List ℕ) (include : Included) (d : ZoneDraft) (line at : ℕ) (r : EntryReason) (blank : Bool) (ws : List Word)
    → after_entry d line blank ws ≡ Err (at, r) → is_include r ≡ false → entry_of name include d line blank ws ≡ Err (name, at, Entry r)
unfolding entry_of
entry_refused name include d line at r blank ws h t = ap (entry_or name include d line ws) h ∙ rw t refl

pub entry_asks : (name : List ℕ) (include : Included) (d : ZoneDraft) (line at : ℕ) (r : EntryReason) (blank : Bool) (ws : List Word)
    → after_entry d line blank ws ≡ Err (at, r) → is_include r ≡ true → include_of name include d line ws ≡ entry_of name include d line blank ws
unfolding entry_of
entry_asks name include d line at r blank ws h t = sym (ap (entry_or name include d line ws) h ∙ rw t refl)
