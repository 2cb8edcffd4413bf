mod Greatest
mod Origins
mod InTurn
