-- What a turn does at the number of its request.
use Rattle.std.proofs.Common.{◌≡◌, ℕ, ◌+◌, ◌<◌, length, get_or, set, Option, Some, None, Bool, true, false, refl}
use Rattle.std.specs.Prelude.{not, ◌&&◌, if◌then◌else◌}
use Rattle.std.specs.Ordering.{nat_cmp}
use Rattle.std.specs.BTreeMap.{get}
use Rattle.dns_framing.specs.Answer.{Answer}
use Rattle.dns_framing.specs.Polls.{PolledRequest}
use Rattle.dns_session.specs.Connections.{is_in_transaction}
use Rattle.dns_session.specs.TurnedAt.{TurnsBy, TurnedAt}
use Rattle.dns_session.specs.Unfinished.{ChangesAt, IsInOrder, LetsGo, request_at, row_start}
use Rattle.dns_session.specs.declared.connection_request.ConnectionRequest.{ConnectionRequest}
use Rattle.dns_framing.specs.declared.invoker.ConnectionInvoker.{ConnectionInvoker}
use Rattle.dns_session.specs.declared.unfinished.Unfinished.{Unfinished}
use Rattle.dns_session.proofs.Rows.{at_place, before_row, changes_on, passed_here, set_changes, set_here, set_start}

module _ {F R : Type 0} (answer : PolledRequest F R → ℕ → Answer) where
  -- one that is done is let go, and any other stays
  pub turned_at : (g g' : Option (ConnectionRequest F R)) (q q' : ConnectionRequest F R) (i i' : ConnectionInvoker) (was now done : Bool)
      → g ≡ Some q → TurnsBy answer q.held q i done q' i' → was ≡ is_in_transaction q.status → now ≡ (not done && is_in_transaction q'.status) → g' ≡ (if done then None else Some q')
      → TurnedAt answer g i was now g' i'
  turned_at None g' q q' i i' was now done is turns before behind left = cc
  turned_at (Some p) g' q q' i i' was now true is turns before behind left =
      let same : p ≡ q = cc in
      rw same (record { after = q'; done = true; turns = turns; left = left; before = before; behind = behind })
  turned_at (Some p) None q q' i i' was now false is turns before behind left = cc
  turned_at (Some p) (Some p') q q' i i' was now false is turns before behind left =
      let same : p ≡ q = cc in
      let same' : p' ≡ q' = cc in
      rw same (record { after = q'; done = false; turns = turns; left = same'; before = before; behind = behind })

  -- one that stays in the row
  pub stays_in_row : (u v : Unfinished (ConnectionRequest F R)) (place : ℕ) (q q' : ConnectionRequest F R) (i i' : ConnectionInvoker) (was now done : Bool)
      → place < length u.row.items → q ≡ get_or u.row.items place q → v.count ≡ u.count → v.row.items ≡ set u.row.items place q' → v.passed ≡ u.passed
      → TurnsBy answer q.held q i done q' i' → was ≡ is_in_transaction q.status → now ≡ (not done && is_in_transaction q'.status) → done ≡ false
      → TurnedAt answer (request_at u (row_start u + place)) i was now (request_at v (row_start u + place)) i'
  stays_in_row u v place q q' i i' was now done l is c r p turns before behind stays =
      turned_at (request_at u (row_start u + place)) (request_at v (row_start u + place)) q q' i i' was now done (at_place u place q l is) turns before behind (rw stays (set_here u v place q' l c r p))

  -- one of the row that is done and let go
  pub gone_from_row : (u w v : Unfinished (ConnectionRequest F R)) (place : ℕ) (q q' : ConnectionRequest F R) (i i' : ConnectionInvoker) (was now done : Bool)
      → place < length u.row.items → q ≡ get_or u.row.items place q → w.count ≡ u.count → w.row.items ≡ set u.row.items place q' → w.passed ≡ u.passed
      → TurnsBy answer q.held q i done q' i' → was ≡ is_in_transaction q.status → now ≡ (not done && is_in_transaction q'.status) → done ≡ true
      → LetsGo w (row_start w + place) v → IsInOrder u
      → TurnedAt answer (request_at u (row_start u + place)) i was now (request_at v (row_start u + place)) i'
  gone_from_row u w v place q q' i i' was now done l is c r p turns before behind ended goes h =
      let start = set_start u w place q' l c r p in
      let none : request_at v (row_start u + place) ≡ None = rw start at (goes.here (set_changes u w place q' l c r p h).in_order) in
      turned_at (request_at u (row_start u + place)) (request_at v (row_start u + place)) q q' i i' was now done (at_place u place q l is) turns before behind (rw ended none)

  pub gone_changes : (u w v : Unfinished (ConnectionRequest F R)) (place : ℕ) (q' : ConnectionRequest F R)
      → place < length u.row.items → w.count ≡ u.count → w.row.items ≡ set u.row.items place q' → w.passed ≡ u.passed
      → LetsGo w (row_start w + place) v → IsInOrder u → ChangesAt (row_start u + place) u v
  gone_changes u w v place q' l c r p goes h =
      let start = set_start u w place q' l c r p in
      let first = set_changes u w place q' l c r p h in
      changes_on (row_start u + place) u w v first (rw start at (goes.others first.in_order))

  -- one that was passed by
  pub turned_before : (u v : Unfinished (ConnectionRequest F R)) (k : ℕ) (i i' : ConnectionInvoker) (was now : Bool)
      → k < row_start u → v.count ≡ u.count → v.row.items ≡ u.row.items
      → TurnedAt answer (get nat_cmp u.passed k) i was now (get nat_cmp v.passed k) i'
      → TurnedAt answer (request_at u k) i was now (request_at v k) i'
  turned_before u v k i i' was now b c r t =
      let x = before_row u k b in
      let y = passed_here u v k b c r in
      rw (x, y) t

  -- none is kept past the row
  pub turned_past : (u : Unfinished (ConnectionRequest F R)) (k : ℕ) (i : ConnectionInvoker) → request_at u k ≡ None → TurnedAt answer (request_at u k) i false false (request_at u k) i
  turned_past u k i none = rw none (refl, refl, refl, refl)
