pub mod Answered
mod AnswersBack
mod AnswersOn
pub mod Between
pub mod Called
mod FirstRules
mod TakenLine
mod LinesBack
mod NamesBack
mod Padded
mod Pends
mod ReadRange
mod RecordsBack
mod ScriptBack
mod ScriptRead
mod SettingsRead
pub mod Spaced
mod TraceScripts
mod ZoneRefused
