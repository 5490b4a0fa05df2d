mod Alike
mod Below
