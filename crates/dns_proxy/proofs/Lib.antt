mod Events
mod ClientMessages
mod Placed
