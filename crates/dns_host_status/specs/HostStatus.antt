-- The status of a host that was served.
use Rattle.dns_run.specs.declared.status.Status.{Status}
use Rattle.dns_run.specs.declared.status.Status.TheVariants.{Done, OutOfMemory, HostFault}
use Rattle.dns_host.specs.declared.host.HostEnd.{HostEnd}
use Rattle.dns_host.specs.declared.host.HostEnd.TheVariants.{Done as HostDone, OutOfMemory as HostOutOfMemory, HostFault as HostFailed}

-- the status of a host that was served
abbrev pub status_of_host : HostEnd → Status
status_of_host HostDone = Done
status_of_host HostOutOfMemory = OutOfMemory
status_of_host HostFailed = HostFault

-- What is so of how a host was served, by the status that stands for it. No other status is that of a host.
abbrev pub OfHost : (HostEnd → Type 0) → Status → Type 0
OfHost P Done = P HostDone
OfHost P OutOfMemory = P HostOutOfMemory
OfHost P HostFault = P HostFailed
OfHost P _ = ⊥
