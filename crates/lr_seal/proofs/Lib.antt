mod Denoted
mod Pieces
mod Remade
