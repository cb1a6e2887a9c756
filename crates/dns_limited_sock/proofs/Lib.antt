mod Moves
