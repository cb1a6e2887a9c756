-- Several calls of one seat.
use Rattle.std.proofs.Common.{◌≡◌, List, [], ◌∷◌, ◌++◌, refl, sym, ap, ◌∙◌, append_assoc, append-nil}
use Rattle.dns_admission.specs.declared.call.Call.{Call}
use Rattle.dns_admission.specs.declared.call.Reply.{Reply}
use Rattle.dns_book.specs.declared.history.Entry.{Entry}
use Rattle.dns_book.specs.declared.history.Share.{Share}
use Rattle.dns_book.specs.declared.history.Known.{Known}
use Rattle.dns_book.specs.History.{entry, with_entry}
use Rattle.dns_book.specs.Seats.{Called, first_half}
use Rattle.dns_book.specs.Gains.{with_calls, Gained}

with_calls-append : (es fs : List Entry) (m : List Share) → with_calls (es ++ fs) m ≡ with_calls fs (with_calls es m)
with_calls-append [] fs m = refl
with_calls-append (x ∷ xs) fs m = with_calls-append xs fs (with_entry x.by x m)

pub gained_none : (k : Known) → Gained k [] k
gained_none k = record { same_book = refl; seen = ([], sym (append-nil k.seen)); mine = refl }

-- the calls of one stretch, and then those of the next
pub gained_both : (old : Known) (es : List Entry) (k : Known) (fs : List Entry) (new : Known) → Gained old es k → Gained k fs new → Gained old (es ++ fs) new
gained_both old es k fs new g h = record {
  same_book = h.same_book ∙ g.same_book;
  seen = (g.seen.0 ++ h.seen.0, h.seen.1 ∙ (ap (λ (l : List Entry). l ++ h.seen.0) g.seen.1 ∙ append_assoc old.seen g.seen.0 h.seen.0));
  mine = h.mine ∙ (ap (λ (m : List Share). with_calls fs m) g.mine ∙ sym (with_calls-append es fs old.mine));
}

-- one call
pub gained_one : (k : Known) (c : Call) (r : Reply) (k' : Known) → Called k c r k' → Gained k (entry k.name c r ∷ []) k'
gained_one k c r k' h = record {
  same_book = h.same_book;
  seen = (h.seen.0 ++ entry k.name c r ∷ [], h.seen.1 ∙ append_assoc k.seen h.seen.0 (entry k.name c r ∷ []));
  mine = h.mine;
}

-- the first half of a seat keeps its calls
pub gained_half : (old : Known) (es : List Entry) (k : Known) → Gained old es k → Gained old es (first_half k)
gained_half old es k g = record { same_book = g.same_book; seen = g.seen; mine = g.mine }
