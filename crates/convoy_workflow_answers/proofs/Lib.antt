mod Uppers
mod SoughtRuns
mod Told
mod Proved
