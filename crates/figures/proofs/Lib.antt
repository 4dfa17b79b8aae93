mod Margined
mod Bordered
