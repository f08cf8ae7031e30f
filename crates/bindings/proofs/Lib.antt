mod Acted
mod Known
mod Paged
