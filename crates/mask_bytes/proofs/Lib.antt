-- Laws of the masked table's bytes.
mod Assembled
