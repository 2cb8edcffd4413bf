mod Greatest
mod Lines
