mod Computing
mod Stands
