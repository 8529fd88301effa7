pub mod Boxes
pub mod Numbers
pub mod Places
pub mod Tops
