-- What reads and writes do to a link.
use Rattle.std.proofs.Common.{◌≡◌, ℕ, ◌+◌, ◌-◌, ◌≤◌, ◌<◌, List, [], ◌∷◌, ◌++◌, take, length, arith, refl, sym, ◌∙◌, append-nil}
use Rattle.std.proofs.lemmas.Grind.{common_steps}
use Rattle.dns_io.specs.Traffic.{Traffic}
use Rattle.dns_events.specs.declared.event.EventKind.{EventKind}
use Rattle.dns_events.specs.declared.event.EventKind.TheVariants.{Write, Fault, Piece, End, Tick}
use Rattle.dns_stream_driver.specs.Links.{piece_octets, PieceHasOctet, tick_count, end_count, WroteFront, WroteUntil, WrittenPart, MovedBy, Unread}
use Rattle.dns_stream_driver.specs.declared.writing.WriteEnd.TheVariants.{Whole, Failed, Late}

pub wrote_none : (piece : List ℕ) (w : Traffic) → WroteFront 0 piece w w
wrote_none piece w = record { came = refl; went = sym (append-nil w.went); ticks = refl; ends = refl }

pub wrote_again : (d : ℕ) (frame : List ℕ) (w0 w1 w2 w3 : Traffic) → WroteFront d frame w0 w1 →
    w2 ≡ record w1 { full_writes = w1.full_writes + 1 } → w3 ≡ w2 → WroteFront d frame w0 w3
wrote_again d frame w0 w1 w2 w3 r e f = let h = f ∙ e in record { came = rw h r.came; went = rw h r.went; ticks = rw h r.ticks; ends = rw h r.ends }

-- the event of a write, and of a read
moved_by_write : (kind : EventKind) (frame : List ℕ) (limit k : ℕ) (w w' : Traffic) → piece_octets kind ≡ [] → PieceHasOctet kind → tick_count kind ≡ 0 → end_count kind ≡ 0 →
    WroteFront k frame w w' → WrittenPart kind (frame ∷ []) limit (take k frame) → MovedBy kind (frame ∷ []) limit w w'
moved_by_write kind frame limit k w w' p f t e r q = record {
  part = take k frame;
  came = rw p (r.came ∙ sym (append-nil w.came));
  full = f;
  ticks = omega (arith, r.ticks, t);
  ends = omega (arith, r.ends, e);
  went = r.went;
  part_is = q;
}

moved_by_read : (kind : EventKind) (w w' : Traffic) → PieceHasOctet kind → w'.came ≡ w.came ++ piece_octets kind → w'.empty_reads ≡ w.empty_reads + tick_count kind → w'.ends ≡ w.ends + end_count kind →
    w'.went ≡ w.went → WrittenPart kind [] 0 [] → MovedBy kind [] 0 w w'
moved_by_read kind w w' f c t e o q = record { part = []; came = c; full = f; ticks = t; ends = e; went = o ∙ sym (append-nil w.went); part_is = q }

pub moved_whole : (frame : List ℕ) (start limit took : ℕ) (w w' : Traffic) → WroteUntil Whole frame start limit w w' → MovedBy (Write took) (frame ∷ []) limit w w'
moved_whole frame start limit took w w' r = moved_by_write (Write took) frame limit r.written w w' refl tt refl refl r.front (record { written = r.written; is = refl; whole = λ _. r.bound })

pub moved_late : (frame : List ℕ) (start limit at secs : ℕ) (w w' : Traffic) → WroteUntil (Late at secs) frame start limit w w' → MovedBy (Write (at - start)) (frame ∷ []) limit w w'
moved_late frame start limit at secs w w' r = let l : limit < at - start = r.bound in
    moved_by_write (Write (at - start)) frame limit r.written w w' refl tt refl refl r.front (record { written = r.written; is = refl; whole = λ (h : at - start ≤ limit). absurd (omega arith) })

pub moved_failed : (frame : List ℕ) (start limit : ℕ) (w w' : Traffic) → WroteUntil Failed frame start limit w w' → MovedBy Fault (frame ∷ []) limit w w'
moved_failed frame start limit w w' r = moved_by_write Fault frame limit r.written w w' refl tt refl refl r.front (record { written = r.written; is = refl })

pub moved_piece : (n : ℕ) (buf o : List ℕ) (w w' : Traffic) → w' ≡ record w { came = w.came ++ take n buf } → o ≡ take n buf → 1 ≤ n → n ≤ length buf → MovedBy (Piece o) [] 0 w w'
moved_piece n buf o w w' e h l m = moved_by_read (Piece o) w w' (rw h (grind (arith, common_steps))) (rw (e, h) refl) (rw e (omega arith)) (rw e (omega arith)) (rw e refl) refl

pub moved_again : (w w1 w2 : Traffic) → w1 ≡ record w { empty_reads = w.empty_reads + 1 } → w2 ≡ w1 → MovedBy Tick [] 0 w w2
moved_again w w1 w2 e f = let h = f ∙ e in moved_by_read Tick w w2 tt (rw h (sym (append-nil w.came))) (rw h refl) (rw h (omega arith)) (rw h refl) refl

pub moved_end : (w w1 : Traffic) → w1 ≡ record w { ends = w.ends + 1 } → MovedBy End [] 0 w w1
moved_end w w1 h = moved_by_read End w w1 tt (rw h (sym (append-nil w.came))) (rw h (omega arith)) (rw h refl) (rw h refl) refl

pub moved_none : (w w1 : Traffic) → w1 ≡ w → MovedBy Fault [] 0 w w1
moved_none w w1 h = moved_by_read Fault w w1 tt (rw h (sym (append-nil w.came))) (rw h (omega arith)) (rw h (omega arith)) (rw h refl) (record { written = 0; is = refl })

pub unread : (n : ℕ) (buf : List ℕ) (w w' : Traffic) → w' ≡ record w { came = w.came ++ take n buf } → Unread w w'
unread n buf w w' e = record { unread = take n buf; came = rw e refl; went = rw e refl }
