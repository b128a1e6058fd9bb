pub mod Elf
