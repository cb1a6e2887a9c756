use Rattle.std.proofs.Common.{[], ◌∷◌, refl}
use Rattle.dns_events.specs.declared.event.EventKind.TheVariants.{Fault}
use Rattle.dns_dgram_driver.proofs.Posting.{sent_none, sends_whole, sends_late, sends_failed, unsent_posts}
use Rattle.dns_dgram_driver.proofs.ObservedLaws.{on_ok_is, on_err_is, tells_none, tells_dc, tells_dc_j, tells_dc_c_j}
use Rattle.dns_dgram_driver.proofs.sends.deliver.Goals as goal

pub returns-in_default-clause-observed : goal.returns-in_default-clause-observed
returns-in_default-clause-observed g c =
    rw c.in_default.is (tells_none (sends_whole c.args.head [] c.args.limit _ _ _ _ _ _ _ (sent_none _ _) refl))

pub returns-in-Sent-clause-observed : goal.returns-in-Sent-clause-observed
returns-in-Sent-clause-observed g c = rw c.in-Some.is
    (tells_dc c.in-Sent.ensures.observed (λ x.
    sends_whole c.args.head (c.in-Some.packet ∷ []) c.args.limit _ _ _ _ _ _ _ x c.in-Sent.ensures.cause))

pub returns-in-Late-clause-observed : goal.returns-in-Late-clause-observed
returns-in-Late-clause-observed g c = rw c.in-Some.is
    (on_ok_is c.note_kind.result (λ u is. tells_dc_j c.in-Late.ensures.observed (rw is at c.note_kind.ensures)
    (λ x n. sends_late c.args.head (record { at = c.in-Late.at; secs = c.in-Late.secs; client = c.args.head.client; kind = Fault })
    (c.in-Some.packet ∷ []) c.args.limit _ _ _ _ _ _ _ _ refl refl x n c.in-Late.ensures.cause)))

pub returns-in-Late-clause-no_memory : goal.returns-in-Late-clause-no_memory
returns-in-Late-clause-no_memory g c = on_err_is c.note_kind.result
    (λ u is. tells_dc_j c.in-Late.ensures.observed (rw is at c.note_kind.ensures) (λ x n. unsent_posts _ _ _ _ x.posts n))

pub returns-in-Failed-clause-observed : goal.returns-in-Failed-clause-observed
returns-in-Failed-clause-observed g c = rw c.in-Some.is
    (on_ok_is c.note_kind-in-Failed.result (λ u is.
    tells_dc_c_j c.in-Failed.ensures.observed c.now-at.ensures (rw is at c.note_kind-in-Failed.ensures)
    (λ x r n. sends_failed c.args.head (record {
      at = c.now-at.result.0;
      secs = c.now-at.result.1;
      client = c.args.head.client;
      kind = Fault;
    }) (c.in-Some.packet ∷ []) c.args.limit _ _ _ _ _ _ _ _ _ refl refl x
    (record { clock = r; noted = n }) c.in-Failed.ensures.cause)))

pub returns-in-Failed-clause-no_memory : goal.returns-in-Failed-clause-no_memory
returns-in-Failed-clause-no_memory g c =
    on_err_is c.note_kind-in-Failed.result (λ u is.
    tells_dc_c_j c.in-Failed.ensures.observed c.now-at.ensures (rw is at c.note_kind-in-Failed.ensures)
    (λ x r n. unsent_posts _ _ _ _ x.posts n))
