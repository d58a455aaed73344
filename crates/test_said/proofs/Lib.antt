mod Computing
mod Nothing
mod Stands
mod Within
