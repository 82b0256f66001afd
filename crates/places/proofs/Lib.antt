mod Steps
mod Tabled
