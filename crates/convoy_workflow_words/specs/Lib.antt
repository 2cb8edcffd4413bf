-- the words of keys that only workflow texts have
pub mod Words
