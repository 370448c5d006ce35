-- Laws of the work of mapping.
mod Working
