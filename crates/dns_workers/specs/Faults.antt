-- Why a host with several workers ends by a fault.
use Rattle.std.specs.Prelude.{◌≡◌, ◌⊎◌, ℕ, List, [], ◌∷◌}
use Rattle.dns_io.specs.Causes.{Rose}
use Rattle.dns_host.specs.declared.host.HostEnd.{HostEnd}
use Rattle.dns_host.specs.declared.host.HostEnd.TheVariants.{Done, OutOfMemory, HostFault}
use Rattle.dns_workers.specs.declared.worker.Worker.{Worker}
use Rattle.dns_workers.specs.declared.workers_host.WorkersHost.{WorkersHost}

-- a host ends by a fault if something failed, and is done if nothing did
abbrev pub CausedBy : HostEnd → Type 0 → Type 0 → Type 0
CausedBy HostFault some none = some
CausedBy Done some none = none
CausedBy OutOfMemory some none = Unit {0}

module _ {D C J : Type 0} (failed_receives failed_sends : D → ℕ) where
  -- a worker's count of failed receives or of failed sends rose
  abbrev pub WorkerRose : Worker D C J → Worker D C J → Type 0
  WorkerRose w w' = Rose (failed_receives w.sock) (failed_receives w'.sock) ⊎ Rose (failed_sends w.sock) (failed_sends w'.sock)

  -- neither did
  abbrev pub WorkerDidNot : Worker D C J → Worker D C J → Type 0
  WorkerDidNot w w' = (failed_receives w'.sock ≡ failed_receives w.sock) × (failed_sends w'.sock ≡ failed_sends w.sock)

  abbrev pub SomeWorkerRose : List (Worker D C J) → List (Worker D C J) → Type 0
  SomeWorkerRose (w ∷ ws) (w' ∷ ws') = WorkerRose w w' ⊎ SomeWorkerRose ws ws'
  SomeWorkerRose ws ws' = ⊥

  abbrev pub NoWorkerRose : List (Worker D C J) → List (Worker D C J) → Type 0
  NoWorkerRose (w ∷ ws) (w' ∷ ws') = WorkerDidNot w w' × NoWorkerRose ws ws'
  NoWorkerRose ws ws' = Unit {0}

  -- A count of failed accepts, refused starts, failed receives or failed sends rose if a host ends by a fault. None changed if it
  -- is done.
  pub record RoseBy {A P : Type 0} (failed : A → ℕ) (refused : P → ℕ) (end : HostEnd) (h h' : WorkersHost A D C P J) : Type 0 where
    pub caused : CausedBy end
        ((Rose (failed h.accept) (failed h'.accept) ⊎ Rose (refused h.spawner) (refused h'.spawner))
        ⊎ SomeWorkerRose h.workers.items h'.workers.items)
        (((failed h'.accept ≡ failed h.accept) × (refused h'.spawner ≡ refused h.spawner)) × NoWorkerRose h.workers.items h'.workers.items)
