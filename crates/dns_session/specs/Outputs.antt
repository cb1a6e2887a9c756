-- The outputs that a client of a number is sent.
use Rattle.std.specs.Prelude.{ℕ, List, [], ◌∷◌}
use Rattle.dns_events.specs.declared.event.Output.{Output}
use Rattle.dns_events.specs.declared.event.Output.TheVariants.{Frame as Frame_output, Closed as Closed_output}
use Rattle.dns_session.specs.declared.sent.Sent.{Sent}
use Rattle.dns_session.specs.declared.sent.Sent.TheVariants.{Nothing, Frame, Last, Closed}

abbrev pub outputs_in : ℕ → Sent → List Output
outputs_in client Nothing = []
outputs_in client (Frame m) = Frame_output client m ∷ []
outputs_in client (Last m why) = Frame_output client m ∷ Closed_output client why ∷ []
outputs_in client (Closed why) = Closed_output client why ∷ []
