mod Events
mod Heard
mod Hearing
mod Led
mod ForwardLaws
