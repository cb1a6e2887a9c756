mod Awaiting
mod JoinedWork
mod SeatLaws
