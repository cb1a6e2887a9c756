mod Keys
mod PlainLabels
mod Tests
