pub mod NotedEvents
pub mod EventTimes
