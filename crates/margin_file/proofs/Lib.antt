mod Reading
mod Alike
mod Cutting
