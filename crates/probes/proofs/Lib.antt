-- Laws of the free share.
mod Seeing
