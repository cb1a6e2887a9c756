pub mod ServedHost
