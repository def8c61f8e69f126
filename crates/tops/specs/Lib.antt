pub mod Tops
pub mod TopsLaws
