mod Standing
mod Whole
