mod Explained
mod InTurn
