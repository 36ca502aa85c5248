mod Ranges
mod Blanks
mod Firsts
mod Valuing
mod Spreading
