mod OfOthers
mod Explained
