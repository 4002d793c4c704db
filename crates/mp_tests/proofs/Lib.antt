mod Rewriting
mod Terms
