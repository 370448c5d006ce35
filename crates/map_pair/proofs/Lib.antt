-- Laws of a pair's five wires, and of what it flips.
mod Five
